pub mod FileExamples
pub mod NeverNine
