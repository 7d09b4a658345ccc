pub mod LeastLaws
pub mod NearestLaws
pub mod NearestExamples
