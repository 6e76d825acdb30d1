pub mod Did
pub mod Types
pub mod Marks
