pub mod Decimals
pub mod Micrometres
