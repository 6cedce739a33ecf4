pub mod Scan
pub mod Looks
pub mod Walks
