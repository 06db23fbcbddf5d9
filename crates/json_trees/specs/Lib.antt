pub mod DataCode
pub mod Named
pub mod Valued
pub mod Cells
pub mod First
pub mod Added
