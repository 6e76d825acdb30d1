pub mod Stored
pub mod Marking
pub mod Children
pub mod Right
