pub mod View
pub mod theorems
pub mod lemmas
