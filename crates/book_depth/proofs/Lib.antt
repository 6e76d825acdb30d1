pub mod Path
pub mod Chain
