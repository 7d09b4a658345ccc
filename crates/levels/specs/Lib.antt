pub mod Levels
pub mod ViewTopology
pub mod theorems
pub mod lemmas
