pub mod Drafts
pub mod Naming
pub mod NewNames
