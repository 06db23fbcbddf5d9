pub mod Deadlines
pub mod Escape
pub mod Frames
pub mod Pictures
pub mod RowTexts
pub mod Services
pub mod Spans
pub mod Trails
