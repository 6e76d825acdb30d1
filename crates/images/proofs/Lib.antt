mod Stored
mod LevelLoops
mod Reading
pub mod Accepted
