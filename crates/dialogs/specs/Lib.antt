pub mod Answering
pub mod LineReads
pub mod Talks
