pub mod AllMarksOne
pub mod DemandThree
