pub mod Forest
pub mod Followed
pub mod Marks
