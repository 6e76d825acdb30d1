pub mod AsOften
pub mod LevelLines
pub mod Bytes
