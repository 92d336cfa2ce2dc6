pub mod CallerLaws
pub mod WalkLemmas
