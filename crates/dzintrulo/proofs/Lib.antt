pub mod Answers
pub mod Resolutions
pub mod Verdicts
