pub mod Answers
pub mod Directory
pub mod Plain
