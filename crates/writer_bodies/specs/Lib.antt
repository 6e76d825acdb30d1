pub mod Bodies
pub mod Records
