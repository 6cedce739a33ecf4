pub mod Model
pub mod Holding
pub mod Pieces
pub mod Keeping
pub mod Joining
