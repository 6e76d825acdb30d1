pub mod Events
pub mod Growth
pub mod Bodies
pub mod HostRun
pub mod StackRule
