pub mod Readings
pub mod Walks
pub mod Numberings
