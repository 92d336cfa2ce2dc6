-- The first falsified clause.
pub mod First
pub mod Least
pub mod Scanned
