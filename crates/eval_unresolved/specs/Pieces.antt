pub mod Contracts
pub mod Several
