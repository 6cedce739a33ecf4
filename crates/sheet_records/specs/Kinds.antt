pub mod Kinds
pub mod Contracts
pub mod Ends
