pub mod Collecting
pub mod Few
pub mod Lined
