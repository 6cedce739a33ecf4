mod Keeps
pub mod Items
