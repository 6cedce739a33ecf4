pub mod Spaces
pub mod Gaps
pub mod Lines
