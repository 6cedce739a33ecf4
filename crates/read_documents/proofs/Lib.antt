pub mod Bodies
pub mod Outlines
pub mod Trees
pub mod Wholes
pub mod Inputs
