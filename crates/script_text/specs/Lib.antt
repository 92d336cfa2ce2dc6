pub mod Devices
pub mod Lines
pub mod Numbers
pub mod Output
pub mod Reading
pub mod Statements
pub mod Status
pub mod Words
