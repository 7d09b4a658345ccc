pub mod ListLaws
pub mod ListCheck
pub mod ListExamples
