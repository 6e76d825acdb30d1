mod LetterTable
mod WordTable
mod Walking
mod Tests
pub mod Kept
pub mod Bars
pub mod Opened
mod Worked
