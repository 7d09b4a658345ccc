pub mod LabelOrder
pub mod theorems
pub mod lemmas
