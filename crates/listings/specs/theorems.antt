pub mod FirstFive
pub mod ListingExamples
