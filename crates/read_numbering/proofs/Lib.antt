pub mod Counts
pub mod Trees
pub mod Lists
pub mod Passes
