pub mod Extents
pub mod Sizes
pub mod Values
