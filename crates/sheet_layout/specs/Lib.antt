pub mod Model
pub mod Clauses
pub mod Compared
pub mod Sheet
mod Examples
