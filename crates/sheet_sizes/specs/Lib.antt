pub mod Clauses
mod Examples
