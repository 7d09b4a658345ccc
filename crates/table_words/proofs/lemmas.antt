pub mod CutWords
