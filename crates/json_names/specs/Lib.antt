pub mod Circles
pub mod Members
pub mod Nearness
