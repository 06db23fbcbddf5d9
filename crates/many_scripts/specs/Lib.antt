pub mod Faults
pub mod Outputs
pub mod Played
pub mod Playing
pub mod Scripts
pub mod Gathered
