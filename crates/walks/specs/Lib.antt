pub mod WalkOrders
pub mod Walk
pub mod Spans
pub mod AddUp
pub mod theorems
pub mod lemmas
