pub mod Lines
pub mod Words
pub mod Versions
pub mod ConditionTexts
pub mod LineTexts
pub mod Reports
pub mod Nearest
pub mod Graphs
