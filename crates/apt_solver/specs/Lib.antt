pub mod Causes
pub mod Changes
pub mod Difference
pub mod Errors
pub mod Program
pub mod Search
pub mod Versions
