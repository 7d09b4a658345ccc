pub mod ViewCheck
pub mod SameView
pub mod SameTopologies
