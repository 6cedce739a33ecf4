pub mod Model
pub mod Texts
pub mod Clauses
pub mod Composition
pub mod Keys
pub mod Building
mod Examples
pub mod Copies
