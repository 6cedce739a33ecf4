pub mod Shows
pub mod Levels
-- A document's nodes have items, so a job's memory bounds what it weighs with its answers.
pub mod Nodes
pub mod Weights
