pub mod Forests
pub mod Growing
pub mod TreeTexts
pub mod Trees
