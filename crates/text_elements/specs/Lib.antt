pub mod Model
pub mod Marks
pub mod Segments
