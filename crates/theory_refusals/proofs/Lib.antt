-- That each refusal of resolving comes exactly when specs/ says.
pub mod WorkingOrder
pub mod Pieces
pub mod When
pub mod Places
