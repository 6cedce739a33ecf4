pub mod Contracts
pub mod Filled
