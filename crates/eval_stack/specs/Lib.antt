pub mod Model
pub mod Clauses
pub mod Pushes
pub mod Examples
