pub mod ListedCodes
pub mod lemmas
