pub mod Faults
pub mod Json
pub mod Labels
pub mod Named
pub mod Reports
pub mod Texts
