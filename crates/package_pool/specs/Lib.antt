pub mod Interned
pub mod Pool
pub mod PoolIds
pub mod PoolLaws
pub mod PoolProps
pub mod PoolView
