pub mod Gathering
pub mod Lengthening
pub mod Searching
