mod AddLaws
mod BitLemmas
pub mod CallerLaws
mod EncodeLaws
mod GridLaws
mod Places
pub mod TrackerLaws
