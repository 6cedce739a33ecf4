pub mod Clauses
pub mod Packed
