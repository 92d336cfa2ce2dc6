pub mod Words
pub mod Fields
pub mod Relations
pub mod Plain
