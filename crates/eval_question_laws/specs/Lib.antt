pub mod Clauses
pub mod Rules
pub mod Standing
pub mod Work
