pub mod Answering
pub mod Counted
pub mod Playing
pub mod Steps
pub mod Told
