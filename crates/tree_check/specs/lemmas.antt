pub mod CheckOutcomes
pub mod Sized
pub mod TableParts
pub mod Tally
