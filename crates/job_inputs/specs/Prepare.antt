pub mod Contracts
pub mod Preparing
pub mod Given
