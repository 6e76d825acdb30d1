pub mod Looking
pub mod Searching
mod Going
mod Declaring
