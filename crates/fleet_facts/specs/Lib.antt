pub mod Facts
pub mod Failing
pub mod GroupFacts
pub mod Hurried
pub mod OnPath
