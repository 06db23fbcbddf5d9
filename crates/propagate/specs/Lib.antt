pub mod Completions
pub mod Reach
pub mod Patched
pub mod KeptStates
pub mod Telling
pub mod Written
