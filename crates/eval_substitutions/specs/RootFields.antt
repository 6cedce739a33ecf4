pub mod Contracts
pub mod Root
