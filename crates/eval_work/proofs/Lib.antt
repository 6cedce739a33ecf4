mod Evaluated
mod Standing
mod Questions
mod Turns
mod Working
