mod Asks
mod Exits
mod Fields
pub mod ListedLemmas
mod Steps
