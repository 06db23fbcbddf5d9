pub mod Back
pub mod Json
pub mod Laws
pub mod Parts
pub mod Says
