pub mod Clauses
pub mod Measures
