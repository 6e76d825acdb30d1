mod Inside
mod Failing
mod Calls
mod Outcomes
pub mod First
pub mod Reach
pub mod Never9
