pub mod Tracing
pub mod Trying
pub mod Zips
