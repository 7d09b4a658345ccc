pub mod Rerooted
pub mod theorems
pub mod lemmas
