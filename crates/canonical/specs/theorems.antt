pub mod Branches
pub mod Over
pub mod Partners
