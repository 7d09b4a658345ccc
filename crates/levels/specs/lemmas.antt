pub mod LevelOutcomes
pub mod ViewOutcomes
