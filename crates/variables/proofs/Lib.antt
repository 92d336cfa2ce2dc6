pub mod InterningLemmas
pub mod VariableLemmas
