pub mod Changes
pub mod Heads
pub mod Json
pub mod Objects
pub mod Reports
pub mod Rows
pub mod Tokens
pub mod Versions
