pub mod Clauses
pub mod Reading
pub mod Examples
pub mod Paths
