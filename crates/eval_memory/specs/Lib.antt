pub mod Keys
pub mod KeptEnds
pub mod Finished
pub mod Tables
pub mod Views
