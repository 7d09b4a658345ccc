pub mod KeptAnswer
pub mod lemmas
