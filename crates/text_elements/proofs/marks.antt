pub mod Marking
pub mod Judging
