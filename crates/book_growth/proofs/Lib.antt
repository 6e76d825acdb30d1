pub mod Grown
pub mod Added
pub mod GrownProgram
pub mod Order
pub mod Written
pub mod Within
pub mod Parts
mod Worked
