-- What keeps a queue at the values of a trail: routing, queuing, and what becomes hot.
pub mod Flags
pub mod Forgetting
pub mod HotClause
pub mod HotNames
pub mod Law
pub mod NewClause
pub mod Noting
pub mod Queued
pub mod Routes
pub mod Same
pub mod Trails
