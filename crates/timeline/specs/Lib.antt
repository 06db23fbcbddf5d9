pub mod Places
pub mod Rounds
