pub mod Contracts
pub mod Comes
pub mod Steps
