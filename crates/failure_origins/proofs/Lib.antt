pub mod Arising
pub mod Listing
pub mod Telling
