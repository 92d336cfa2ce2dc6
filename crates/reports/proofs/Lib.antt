pub mod AppendLemmas
pub mod LineLemmas
pub mod NearestLemmas
pub mod ReportLemmas
pub mod TextLemmas
