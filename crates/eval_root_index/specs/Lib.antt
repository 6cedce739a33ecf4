pub mod Links
pub mod Clauses
pub mod Documents
pub mod Examples
