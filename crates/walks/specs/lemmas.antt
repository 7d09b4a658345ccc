pub mod Adding
pub mod Positions
pub mod SpanLists
pub mod TreeArrays
pub mod WalkOutcomes
pub mod Writing
