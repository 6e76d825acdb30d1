pub mod Growth
pub mod Grows
pub mod Parts
