pub mod Model
pub mod Kinds
pub mod Helds
pub mod Standing
pub mod Pieces
pub mod Answers
pub mod Objects
pub mod Clauses
pub mod Growth
mod Examples
pub mod Scalar
pub mod Steps
