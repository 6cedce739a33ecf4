pub mod Model
pub mod Contracts
pub mod Gather
pub mod Levels
pub mod Uses
pub mod Tops
