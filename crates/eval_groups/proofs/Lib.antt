pub mod Entering
pub mod Objects
