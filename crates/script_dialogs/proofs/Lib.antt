pub mod DialogCalls
pub mod DialogLemmas
pub mod LineLemmas
pub mod StageLemmas
