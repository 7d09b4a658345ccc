pub mod EvidenceLaws
