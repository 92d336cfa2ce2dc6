pub mod AnswerLemmas
pub mod ArenaLemmas
pub mod MappingLemmas
