pub mod Contracts
pub mod Distinct
pub mod Steps
