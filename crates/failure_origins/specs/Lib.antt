pub mod Failures
pub mod Lists
pub mod Origins
