pub mod CallLemmas
pub mod PickedLemmas
