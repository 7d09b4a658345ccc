pub mod FiveAnswers
pub mod Changes
pub mod theorems
pub mod lemmas
