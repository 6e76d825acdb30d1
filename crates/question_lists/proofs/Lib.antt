pub mod Places
pub mod Inside
mod Complete
