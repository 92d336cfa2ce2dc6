-- How often the rows of requirements are walked.
pub mod Counts
pub mod Owed
