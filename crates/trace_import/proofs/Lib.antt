pub mod Clocks
pub mod Gaining
pub mod Made
pub mod Names
pub mod Outcomes
