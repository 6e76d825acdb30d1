pub mod BookTest
pub mod Scratch
pub mod Promise
pub mod Kept
