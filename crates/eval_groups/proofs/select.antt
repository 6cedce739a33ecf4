pub mod Looks
pub mod Descents
pub mod Walks
