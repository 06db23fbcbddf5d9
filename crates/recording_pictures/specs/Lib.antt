pub mod Drawn
pub mod Pictures
pub mod Told
pub mod Words
