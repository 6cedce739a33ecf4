-- That the rules' definitions and the plain ones are the same.
pub mod Layers
pub mod LookBack
pub mod Keys
pub mod Acceptance
pub mod Elements
