pub mod FaultTexts
pub mod Kept
pub mod Listened
pub mod Stopping
