pub mod Position
pub mod Searching
mod Probing
