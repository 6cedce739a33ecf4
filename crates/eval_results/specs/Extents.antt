pub mod Contracts
pub mod Came
pub mod Members
