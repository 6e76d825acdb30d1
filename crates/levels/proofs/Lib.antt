pub mod Steps
mod Marking
mod Declaring
