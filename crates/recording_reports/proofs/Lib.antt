pub mod Pairing
pub mod Reporting
