pub mod Weights
pub mod Contracts
pub mod Layers
