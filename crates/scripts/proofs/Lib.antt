pub mod Beginnings
pub mod Digits
pub mod EndLemmas
pub mod LiteralLemmas
pub mod ScriptLemmas
pub mod TranscriptLemmas
