pub mod Clearing
pub mod Copying
