pub mod Step
pub mod Methods
pub mod SolverState
pub mod LevelState
pub mod REngine
pub mod Trace
pub mod Listing
