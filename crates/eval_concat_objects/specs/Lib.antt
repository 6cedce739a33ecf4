pub mod Beside
pub mod Clauses
pub mod Pair
