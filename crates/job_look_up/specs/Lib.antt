pub mod LookUpJob
