pub mod Levels
pub mod Walking
