pub mod Passed
pub mod CodesAt
pub mod FitParents
pub mod CodeCounts
pub mod EdgePlaces
pub mod InnerNodes
pub mod Listed
