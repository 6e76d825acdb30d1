pub mod Filled
pub mod Names
pub mod Parts
