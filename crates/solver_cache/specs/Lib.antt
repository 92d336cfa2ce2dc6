pub mod Cache
pub mod CandidateLaws
pub mod Functions
pub mod Hints
pub mod Outcomes
pub mod Questions
pub mod Refused
pub mod Unanswered
