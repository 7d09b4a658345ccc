pub mod EvidenceAnswer
pub mod lemmas
