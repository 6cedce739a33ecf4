pub mod Clauses
pub mod Editions
pub mod Promises
pub mod Packed
