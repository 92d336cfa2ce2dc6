pub mod Adding
pub mod Counted
pub mod FalsifiedHeap
pub mod First
pub mod CounterState
pub mod Links
pub mod GroupedClauses
