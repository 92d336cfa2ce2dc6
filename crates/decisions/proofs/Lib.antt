pub mod FloorLaws
pub mod TrackerLemmas
pub mod TrailLemmas
