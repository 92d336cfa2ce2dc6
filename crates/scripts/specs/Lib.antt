pub mod Commands
pub mod Ends
pub mod Replies
pub mod ScriptStore
pub mod Scripts
pub mod Transcript
