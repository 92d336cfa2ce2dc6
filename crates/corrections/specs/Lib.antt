pub mod Corrections
pub mod Marks
pub mod Outcomes
pub mod Proposals
