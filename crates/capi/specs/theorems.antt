pub mod WeightKinds
