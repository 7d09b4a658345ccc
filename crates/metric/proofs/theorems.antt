pub mod TreesExchanged
pub mod Triangle
pub mod IsMetric
pub mod BelowHalf
