pub mod Exact
pub mod ExactReports
pub mod InOrder
pub mod Listing
pub mod Pushed
