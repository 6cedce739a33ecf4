pub mod Runs
pub mod CodeDemands
pub mod ExportDemands
