pub mod Script
pub mod Turned
