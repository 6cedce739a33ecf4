pub mod Model
pub mod Clauses
pub mod Members
pub mod Answer
