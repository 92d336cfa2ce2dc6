pub mod ConditionLaws
mod DeferredLaws
pub mod EntryLemmas
mod ExpansionLaws
pub mod GatherLemmas
pub mod JoinLemmas
pub mod MergedLemmas
pub mod SlotLemmas
