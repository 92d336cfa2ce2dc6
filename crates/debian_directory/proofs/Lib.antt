pub mod Directories
pub mod Elements
mod Examples
pub mod Lists
pub mod Names
pub mod Places
pub mod Standing
