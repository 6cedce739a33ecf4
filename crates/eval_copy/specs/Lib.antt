pub mod Model
pub mod Clauses
pub mod Steps
pub mod Copies
mod Examples
pub mod Runs
