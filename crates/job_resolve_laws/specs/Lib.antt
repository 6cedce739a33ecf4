pub mod Clauses
pub mod Tasks
pub mod Settled
pub mod Ends
