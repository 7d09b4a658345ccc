pub mod MarkLaws
pub mod WeightLaws
