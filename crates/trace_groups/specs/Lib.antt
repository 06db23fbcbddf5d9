pub mod GroupNames
pub mod Replies
pub mod Stages
