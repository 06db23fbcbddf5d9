pub mod Changes
pub mod Escaping
pub mod InTurn
