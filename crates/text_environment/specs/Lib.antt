pub mod Clauses
pub mod Answers
