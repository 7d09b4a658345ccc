pub mod Least
pub mod Nearest
pub mod theorems
pub mod lemmas
