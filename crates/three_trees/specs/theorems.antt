pub mod ThreeAnswers
pub mod ExchangedAnswers
pub mod ReplacedAnswers
pub mod AnswersMetric
