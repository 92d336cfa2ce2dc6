mod Examples
pub mod ListLemmas
