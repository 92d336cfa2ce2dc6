pub mod FirstStays
pub mod NewEachTime
pub mod TruthLaws
mod WalkLaws
