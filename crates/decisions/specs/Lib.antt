pub mod DecisionCode
pub mod Decisions
pub mod Floor
pub mod LiteralIndex
pub mod Literals
pub mod Tracker
pub mod Trail
