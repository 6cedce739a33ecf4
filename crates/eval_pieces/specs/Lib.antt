pub mod Clauses
pub mod Rooms
pub mod Heights
pub mod Tops
pub mod References
pub mod Literals
pub mod Cursor
