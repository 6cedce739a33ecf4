pub mod References
pub mod ReferencePieces
