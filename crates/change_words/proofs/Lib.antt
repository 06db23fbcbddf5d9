pub mod Accepted
pub mod Digits
pub mod Hundredths
pub mod MakingLemmas
pub mod Parts
pub mod Pushed
pub mod Shares
pub mod TimeoutLemmas
