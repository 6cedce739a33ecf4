pub mod Openings
pub mod Endings
pub mod Held
pub mod References
