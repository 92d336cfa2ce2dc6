pub mod Examples
pub mod ForestLemmas
pub mod GrowingLemmas
pub mod ReportLemmas
pub mod RowLemmas
pub mod TreeLemmas
