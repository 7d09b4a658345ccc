pub mod ExactProducts
pub mod WeightedOutcomes
