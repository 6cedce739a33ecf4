pub mod Compare
pub mod Entries
pub mod Values
