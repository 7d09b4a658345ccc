pub mod Table
pub mod Refusals
pub mod IsTree
pub mod Numbers
pub mod Check
pub mod TreeOrder
pub mod theorems
pub mod lemmas
