pub mod Crossings
pub mod lemmas
