pub mod SplitAnswer
pub mod lemmas
