pub mod Answers
pub mod Growing
pub mod Meaning
pub mod Needs
pub mod Reading
pub mod Sets
pub mod Texts
