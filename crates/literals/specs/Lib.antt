pub mod Search
pub mod Literals
