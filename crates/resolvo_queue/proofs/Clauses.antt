-- How clauses come to a queue, and what its calls leave of them.
pub mod ByName
pub mod Callers
pub mod Chained
pub mod Counts
pub mod Entries
pub mod Firsts
pub mod Gains
pub mod Heated
pub mod New
pub mod Numbers
pub mod Order
pub mod Records
pub mod Registration
pub mod Synced
