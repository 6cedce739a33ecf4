pub mod Model
pub mod Contracts
pub mod Elements
pub mod Examples
