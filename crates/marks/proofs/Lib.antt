pub mod theorems
pub mod lemmas
