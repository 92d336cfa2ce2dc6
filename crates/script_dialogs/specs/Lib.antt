pub mod DialogEnds
pub mod ScriptLines
