pub mod Chains
pub mod Depths
pub mod Exact
pub mod Lists
