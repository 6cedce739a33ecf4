pub mod Ends
pub mod Counts
