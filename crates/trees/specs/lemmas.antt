pub mod CentreOutcomes
pub mod Climbing
pub mod RootedArrays
pub mod Seen
pub mod ShownPairings
pub mod SideCells
pub mod Sides
pub mod TopologyOutcomes
