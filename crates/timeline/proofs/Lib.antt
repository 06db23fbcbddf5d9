pub mod Decades
pub mod Multiples
pub mod Quotients
