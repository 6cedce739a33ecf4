pub mod Clauses
pub mod Buffers
pub mod Parts
