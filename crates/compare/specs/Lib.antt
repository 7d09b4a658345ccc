pub mod Input
pub mod lemmas
