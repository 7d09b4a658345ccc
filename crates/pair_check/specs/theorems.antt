pub mod PairCheck
pub mod ClearingLaws
