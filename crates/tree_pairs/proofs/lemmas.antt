pub mod AllLabels
pub mod CellSizes
pub mod CrossingTotals
pub mod EdgeRows
pub mod Filling
pub mod LentTables
pub mod RowsUp
pub mod TipRows
