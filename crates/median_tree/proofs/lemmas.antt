pub mod SameCells
pub mod Distances
pub mod RowSums
pub mod Outcomes
