-- What is proved of the definitions of characters: choices, characters passed over, the places of a text, ASCII, lines and columns.
pub mod Choices
pub mod Skips
pub mod Places
pub mod Ascii
pub mod Positions
