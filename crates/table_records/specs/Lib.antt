pub mod Skips
pub mod Sized
