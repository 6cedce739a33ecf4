pub mod Clauses
pub mod Steps
pub mod Arrays
pub mod Layers
pub mod Elements
