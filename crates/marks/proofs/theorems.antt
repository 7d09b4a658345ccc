pub mod MarksCheck
pub mod Ones
