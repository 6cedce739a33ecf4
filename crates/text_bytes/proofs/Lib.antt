pub mod Sames
pub mod Encodes
pub mod Copies
pub mod Texts
