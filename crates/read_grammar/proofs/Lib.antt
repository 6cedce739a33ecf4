pub mod Bytes
pub mod Starts
pub mod Places
pub mod Includes
