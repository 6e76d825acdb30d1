mod Comparing
mod Taking
pub mod Accepted
pub mod Small
mod Ladder
mod CheckCounts
mod TagTerms
