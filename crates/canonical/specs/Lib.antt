pub mod Original
pub mod Canonical
pub mod IsCopy
pub mod Copying
pub mod CanonicalCopy
pub mod theorems
