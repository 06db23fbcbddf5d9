pub mod Counting
pub mod Gathering
pub mod Hurrying
pub mod Telling
