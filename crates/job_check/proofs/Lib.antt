mod Parts
mod Checks
