pub mod PairFile
pub mod theorems
pub mod lemmas
