pub mod RerootedParts
pub mod RerootedTree
pub mod RerootedSplits
pub mod RerootedTopology
pub mod RerootedAtZero
pub mod RerootedExamples
