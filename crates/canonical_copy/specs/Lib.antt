pub mod CopyAnswer
pub mod theorems
pub mod lemmas
