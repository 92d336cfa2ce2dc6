pub mod StanzaLemmas
pub mod FieldLemmas
pub mod ReadLemmas
