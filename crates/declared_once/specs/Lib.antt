pub mod Symbols
pub mod Spelled
pub mod ToldApart
pub mod Numbered
pub mod DeclaredOnce
