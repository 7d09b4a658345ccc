pub mod EdgeSums
pub mod FormedTriplets
pub mod ListedColumns
pub mod ListedRows
pub mod PairCells
pub mod TripletsCounted
