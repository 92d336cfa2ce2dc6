pub mod Index
pub mod Listed
pub mod Mark
pub mod Meaning
pub mod Notes
pub mod Package
pub mod Reading
