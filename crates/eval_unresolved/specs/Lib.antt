pub mod Clauses
pub mod Outcomes
pub mod Parts
pub mod Sole
pub mod Pieces
pub mod Single
