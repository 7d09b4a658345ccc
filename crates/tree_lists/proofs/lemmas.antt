pub mod Starts
pub mod Outcomes
