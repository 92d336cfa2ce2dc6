mod ByHand
pub mod CountLaws
pub mod FalsifiedLaws
pub mod GroupLaws
pub mod IndexLaws
pub mod KeyLaws
pub mod Laws
mod Words
