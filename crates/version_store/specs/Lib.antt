pub mod Plain
pub mod Evaluated
pub mod Queries
pub mod Starts
pub mod Drafts
