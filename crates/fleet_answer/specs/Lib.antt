pub mod Answers
pub mod Json
pub mod Names
pub mod Quantiles
pub mod Rows
pub mod Shares
pub mod Texts
pub mod Without
