pub mod Openings
pub mod Endings
