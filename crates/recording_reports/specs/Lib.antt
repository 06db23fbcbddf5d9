pub mod Pairs
pub mod Reported
