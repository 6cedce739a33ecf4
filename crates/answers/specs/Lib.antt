pub mod Ask
pub mod Resolve
pub mod Theory
