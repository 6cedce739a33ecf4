-- Where an unresolved value stands, found by going down to it from the root; and look-back decided on that way.
pub mod Descent
pub mod Openness
pub mod LookBack
pub mod Passes
pub mod OwnKey
pub mod Numbers
pub mod Room
pub mod Examples
