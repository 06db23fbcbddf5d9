pub mod Held
pub mod Objects
