pub mod CorrectionLemmas
pub mod MarkLemmas
pub mod ProposalLemmas
pub mod Words
