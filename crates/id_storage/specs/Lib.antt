pub mod Arena
pub mod StoredAnswers
pub mod Mapping
pub mod MappingLends
