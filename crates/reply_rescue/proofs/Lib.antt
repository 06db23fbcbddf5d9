pub mod Changing
pub mod Crossing
pub mod Ending
pub mod Gathering
pub mod Rescuing
pub mod Undoing
