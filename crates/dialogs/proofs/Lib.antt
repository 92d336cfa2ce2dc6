pub mod Feeds
pub mod NextLines
pub mod SoFar
pub mod Ends
