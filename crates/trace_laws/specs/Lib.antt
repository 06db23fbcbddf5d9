pub mod Accepted
pub mod Circles
pub mod Completes
pub mod Faithful
pub mod Imports
pub mod Present
pub mod Read
