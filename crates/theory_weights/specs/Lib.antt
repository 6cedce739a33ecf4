-- What a document weighs with the answers of a trail: its own nodes, and a sixth of the trail's bytes.
pub mod Sums
pub mod Numbered
