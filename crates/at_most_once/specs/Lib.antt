pub mod AtMostOne
pub mod NameTrackers
pub mod TrackerView
