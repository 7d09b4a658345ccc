pub mod ListCheck
