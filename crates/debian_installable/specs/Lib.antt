pub mod Fields
pub mod Installable
