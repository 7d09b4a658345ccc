pub mod TreeLists
pub mod CheckedList
pub mod theorems
pub mod lemmas
