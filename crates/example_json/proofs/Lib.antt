pub mod ConditionLemmas
pub mod GatherLemmas
pub mod PlainLemmas
pub mod ShownLemmas
pub mod Words
