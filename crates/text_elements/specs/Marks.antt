pub mod Marks
pub mod Marking
pub mod Holding
pub mod Judging
pub mod Verdicts
