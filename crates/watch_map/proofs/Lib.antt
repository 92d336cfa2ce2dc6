pub mod CallerLaws
mod ChainLaws
mod CountLaws
mod CursorLaws
pub mod ImplicationLaws
mod InputLaws
mod LargestLaws
mod LinkLaws
pub mod ListCallerLaws
mod ListLaws
pub mod ListSaturationLaws
pub mod LiteralLists
pub mod MarkLaws
pub mod SatisfiedLaws
pub mod MarkedLists
mod MoveLaws
mod OpenClauses
mod RoundLaws
mod StackLaws
mod StartLaws
mod UnwatchedLaws
pub mod ValueLaws
mod VisitLaws
mod WalkLaws
mod WatchLemmas
pub mod WatchingLaws
pub mod Words
