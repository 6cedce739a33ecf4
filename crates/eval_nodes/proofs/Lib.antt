pub mod Looks
pub mod Keys
