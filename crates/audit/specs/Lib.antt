pub mod Audit
pub mod Ladder
pub mod Comparable
