-- The rows of requirements: their state, and how they are listed.
pub mod ByVariable
pub mod Frontiers
pub mod KnownSets
pub mod Listing
pub mod Occurrences
pub mod States
