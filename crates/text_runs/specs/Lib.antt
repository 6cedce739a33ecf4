pub mod Clauses
pub mod Passing
