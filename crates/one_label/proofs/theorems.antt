pub mod ChangeExamples
pub mod ChangeLaws
pub mod HoldingIsTriplets
