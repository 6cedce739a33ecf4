pub mod Clauses
pub mod Items
