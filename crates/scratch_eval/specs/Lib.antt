pub mod Answers
pub mod Blame
pub mod Path
pub mod Queries
