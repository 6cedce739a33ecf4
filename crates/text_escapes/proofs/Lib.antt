pub mod Digits
pub mod Characters
pub mod Points
pub mod Escaping
