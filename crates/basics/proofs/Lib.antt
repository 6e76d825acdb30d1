pub mod Bool
pub mod All
pub mod Counting
pub mod Texts
pub mod Clean
pub mod Digits
pub mod Laws
pub mod Places
pub mod Refusals
pub mod Bits
mod Stepping
mod Writing
mod Signs
pub mod Loops
pub mod Chains
