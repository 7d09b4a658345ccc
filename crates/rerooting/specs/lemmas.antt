pub mod Renumbering
pub mod Writing
pub mod Front
