pub mod Reading
pub mod Holding
pub mod Put
pub mod Plain
pub mod Building
mod Texts
