pub mod Contracts
pub mod Exact
