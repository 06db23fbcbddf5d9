pub mod Cuts
pub mod Digits
pub mod Failing
pub mod Faults
pub mod Mapped
pub mod Parts
