pub mod Kept
pub mod InTurn
pub mod Sizes
pub mod Building
pub mod Sets
pub mod Standing
pub mod Examples
