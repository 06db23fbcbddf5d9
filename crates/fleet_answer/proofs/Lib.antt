pub mod Exact
pub mod Leaving
pub mod Lists
pub mod Plain
pub mod RowsSoFar
pub mod Sums
