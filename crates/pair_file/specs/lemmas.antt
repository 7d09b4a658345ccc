pub mod FileOrder
pub mod FileWords
pub mod PairFigures
