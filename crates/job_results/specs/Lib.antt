pub mod Places
pub mod Answers
pub mod Unpacking
pub mod Bits
pub mod Clauses
