pub mod LeastLaws
pub mod NearestLaws
