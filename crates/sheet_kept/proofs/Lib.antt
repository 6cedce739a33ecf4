-- That a value's records and texts are those of its records in turn, and how long they are.
pub mod InTurn
pub mod Sizes
pub mod Building
