pub mod Model
pub mod Clauses
pub mod Shows
pub mod Deeper
pub mod Gather
