pub mod PairOutcomes
