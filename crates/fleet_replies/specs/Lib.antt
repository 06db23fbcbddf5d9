pub mod Placed
pub mod Recorded
pub mod Recordings
pub mod Replies
pub mod Traced
pub mod Traces
