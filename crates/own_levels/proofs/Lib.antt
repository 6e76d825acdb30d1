pub mod Sent
mod Starts
mod Kept
mod Own
