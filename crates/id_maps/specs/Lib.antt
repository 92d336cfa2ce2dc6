pub mod FewIds
pub mod IndexedSet
pub mod Scores
