pub mod Splitting
pub mod Joining
pub mod Advancing
