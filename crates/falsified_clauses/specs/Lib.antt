pub mod Clauses
pub mod Counts
pub mod Falsified
pub mod GroupIndex
pub mod GroupKeys
