mod Comparing
mod Names
mod Asking
