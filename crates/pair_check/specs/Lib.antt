pub mod PairOrder
pub mod Clearing
pub mod CheckedPair
pub mod theorems
pub mod lemmas
