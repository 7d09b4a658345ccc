pub mod QuartetAnswer
pub mod theorems
pub mod lemmas
