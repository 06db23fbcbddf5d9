pub mod First
pub mod RowsLeft
pub mod Texts
