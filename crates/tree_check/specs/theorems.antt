pub mod CheckLaws
pub mod NumberLaws
pub mod RefusalLaws
pub mod RootedTables
pub mod TreeCheck
