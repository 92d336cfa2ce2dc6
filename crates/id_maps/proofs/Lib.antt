pub mod Changed
pub mod IndexedSetLemmas
pub mod Largest
mod ScoreLaws
