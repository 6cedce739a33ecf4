pub mod Clauses
pub mod Answers
pub mod Units
pub mod Ranges
