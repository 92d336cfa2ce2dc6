pub mod ConditionLemmas
pub mod InternedLemmas
pub mod LaterLemmas
pub mod PoolLemmas
