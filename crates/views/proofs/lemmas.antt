pub mod Marking
pub mod ViewOutcomes
