pub mod Contracts
pub mod Texts
