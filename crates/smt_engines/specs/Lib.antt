pub mod SmtEngines
pub mod Command
pub mod Reader
pub mod Written
