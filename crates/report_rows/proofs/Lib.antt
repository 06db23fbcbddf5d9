pub mod Answering
pub mod Taking
pub mod Untouched
pub mod Views
