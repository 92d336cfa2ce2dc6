pub mod ConditionExamples
pub mod ExampleWords
pub mod Examples
pub mod Play
pub mod SaturationExamples
pub mod ScoreExamples
pub mod Script
pub mod Search
