pub mod Pictured
pub mod Put
