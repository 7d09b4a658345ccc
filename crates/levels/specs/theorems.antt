pub mod LevelsCheck
pub mod LevelExamples
