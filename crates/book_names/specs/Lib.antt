pub mod Names
pub mod Spelled
