pub mod Answers
pub mod Recorded
pub mod Writing
pub mod Calls
pub mod Additions
pub mod Fields
pub mod Probes
