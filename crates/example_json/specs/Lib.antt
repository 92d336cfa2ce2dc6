pub mod Answers
pub mod Objects
pub mod Reasons
pub mod Values
