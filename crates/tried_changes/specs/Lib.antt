pub mod InTurn
pub mod Last
pub mod Told
pub mod Tried
