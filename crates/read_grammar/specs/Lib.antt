pub mod Decisions
pub mod Limits
pub mod Roots
