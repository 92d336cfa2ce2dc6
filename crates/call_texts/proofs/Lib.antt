pub mod NamedLemmas
pub mod VersionLemmas
