pub mod ExchangeAnswers
pub mod lemmas
