pub mod NewRows
pub mod SharedRows
pub mod SidesByCrossing
pub mod SplitLoops
pub mod SplitsCounted
