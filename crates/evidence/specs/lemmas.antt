pub mod EvidenceFound
