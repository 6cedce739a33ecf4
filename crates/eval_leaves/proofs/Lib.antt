pub mod Simples
pub mod Leaves
pub mod Finished
