pub mod Agreement
pub mod OwnScripts
