pub mod Clauses
pub mod Turns
