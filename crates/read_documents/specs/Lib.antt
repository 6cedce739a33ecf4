pub mod Clauses
pub mod One
pub mod Trees
pub mod Bounds
