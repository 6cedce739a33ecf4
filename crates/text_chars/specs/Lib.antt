pub mod Cursor
pub mod Positions
pub mod Seen
pub mod Parts
pub mod Bounds
pub mod Clash
pub mod WellFormed
pub mod Blocks
