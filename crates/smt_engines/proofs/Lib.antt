pub mod Commands
pub mod Hearing
mod Writers
