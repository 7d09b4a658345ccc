pub mod Centre
pub mod Topology
pub mod Witness
pub mod theorems
pub mod lemmas
