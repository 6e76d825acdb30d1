pub mod NodesTest
pub mod Listed
pub mod Reach
