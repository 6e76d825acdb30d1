pub mod Growths
pub mod Writing
pub mod Coded
