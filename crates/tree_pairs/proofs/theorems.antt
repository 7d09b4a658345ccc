pub mod Bytes
pub mod CrossingLaws
pub mod PairExamples
