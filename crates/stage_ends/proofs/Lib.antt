pub mod Collecting
pub mod Placing
pub mod Telling
