pub mod Edits
pub mod Trees
pub mod ReadBack
pub mod Sized
pub mod JobSteps
pub mod Promises
