pub mod Examples
pub mod Kinds
pub mod Met
pub mod NamedVersions
pub mod SameLaws
pub mod Truth
pub mod Walks
