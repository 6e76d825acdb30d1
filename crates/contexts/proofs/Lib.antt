pub mod Climb
pub mod Shared
pub mod FromRoot
