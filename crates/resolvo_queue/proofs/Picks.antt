-- The scan, and the pick along it.
pub mod Behind
pub mod Decisions
pub mod Groups
pub mod NumberedScan
pub mod Offers
pub mod Positions
pub mod Ready
pub mod Registered
pub mod Rivals
pub mod Seconds
pub mod Steps
pub mod Unbeaten
