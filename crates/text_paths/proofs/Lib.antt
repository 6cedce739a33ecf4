pub mod Segments
pub mod Whole
pub mod Texts
