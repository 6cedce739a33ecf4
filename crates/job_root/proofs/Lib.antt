mod Values
mod Checks
mod Hands
