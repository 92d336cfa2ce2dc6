pub mod Buffers
pub mod Versions
