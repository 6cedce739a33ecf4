pub mod Stops
pub mod Spelling
