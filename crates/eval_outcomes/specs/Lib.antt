pub mod Newest
pub mod Refusals
