pub mod Data
pub mod Escaped
pub mod Lines
pub mod Pages
pub mod Scripts
