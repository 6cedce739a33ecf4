pub mod Contracts
mod Examples
