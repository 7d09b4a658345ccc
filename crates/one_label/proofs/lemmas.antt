pub mod Changed
pub mod HeldCounts
pub mod LabelCheck
