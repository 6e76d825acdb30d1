pub mod Telling
pub mod Turning
pub mod Cut
pub mod Shapes
pub mod Running
pub mod Replied
