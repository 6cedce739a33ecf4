pub mod Whole
pub mod Joins
pub mod Texts
