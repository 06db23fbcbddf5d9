pub mod Changed
pub mod Changes
pub mod Ends
pub mod Found
pub mod Laws
pub mod Replies
pub mod Rescues
