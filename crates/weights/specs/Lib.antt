pub mod Weights
pub mod WeightedAnswer
pub mod theorems
