pub mod Fault
pub mod Runs
