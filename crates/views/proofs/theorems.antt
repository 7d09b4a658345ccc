pub mod ViewCheck
pub mod SameTopologies
pub mod Noninterference
pub mod ExactlySeen
pub mod ViewExamples
