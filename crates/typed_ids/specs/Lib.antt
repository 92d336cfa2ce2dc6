pub mod Refusals
pub mod TotalMaps
pub mod WithRoot
