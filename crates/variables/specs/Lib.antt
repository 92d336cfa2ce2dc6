pub mod Forgetting
pub mod OriginRecord
pub mod VariableTexts
pub mod Variables
