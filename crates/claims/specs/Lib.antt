pub mod ClaimAnswer
pub mod lemmas
