pub mod Model
pub mod Paths
pub mod Clauses
mod Examples
