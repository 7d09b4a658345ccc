pub mod AllMarksOne
pub mod BytesAsWords
pub mod Fractions
pub mod WeightedDistance
