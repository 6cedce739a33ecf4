-- What is proved of going down to an unresolved value, and of look-back decided on that way.
pub mod Descent
pub mod Openness
pub mod LookBack
pub mod Passes
pub mod OwnKey
pub mod Uses
