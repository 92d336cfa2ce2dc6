pub mod Hyphens
pub mod OrderLaws
pub mod Numbers
pub mod Parts
