pub mod Numbers
pub mod Trails
mod Sheets
