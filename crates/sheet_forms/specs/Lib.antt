pub mod Model
pub mod Clauses
pub mod Ends
pub mod Sheet
mod Examples
