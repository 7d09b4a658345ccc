pub mod AskedFour
pub mod CentreLaws
pub mod PartnerLaws
pub mod TopologyExamples
pub mod TopologyLaws
pub mod WitnessLaws
