pub mod AnswerLemmas
pub mod ExplainLemmas
pub mod IndexLemmas
pub mod NameLemmas
pub mod PrintLemmas
pub mod ShownLemmas
pub mod Words
