pub mod SplitCells
pub mod SplitLoops
pub mod SplitsCounted
