pub mod Collecting
pub mod Counterparts
pub mod Flagged
pub mod Ordering
