pub mod Runs
pub mod Shows
pub mod Fields
pub mod Pieces
