pub mod Answers
pub mod Faults
pub mod Playing
pub mod Replies
pub mod Serves
pub mod Told
pub mod Values
