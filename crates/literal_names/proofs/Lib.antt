mod Pairs
pub mod Naming
