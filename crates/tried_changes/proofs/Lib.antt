pub mod Latest
pub mod TryingLemmas
pub mod Turns
