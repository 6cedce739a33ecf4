pub mod Runs
pub mod Pieces
pub mod Bodies
pub mod Whole
