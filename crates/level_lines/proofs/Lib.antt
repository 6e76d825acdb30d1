pub mod Bags
pub mod Parts
mod Counting
mod Ordering
pub mod Stacks
pub mod Bytes
mod Comparing
