pub mod Decimal
pub mod Lines
pub mod Listing
pub mod theorems
pub mod lemmas
