pub mod Endings
pub mod Members
