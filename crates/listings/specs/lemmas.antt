pub mod DecimalLaws
pub mod LineLaws
pub mod ListingSteps
pub mod Printing
pub mod Written
