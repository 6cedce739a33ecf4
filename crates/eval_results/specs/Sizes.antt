pub mod Contracts
pub mod Answers
pub mod Outcomes
