pub mod Clean
pub mod Joined
pub mod Readers
mod Lower
mod Tag
mod Values
pub mod Answers
pub mod BookCalls
pub mod SymbolsHold
