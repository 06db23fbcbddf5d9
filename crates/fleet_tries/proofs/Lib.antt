pub mod Places
pub mod Portions
pub mod Sharing
