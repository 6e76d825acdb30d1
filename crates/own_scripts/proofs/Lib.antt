mod CheckSats
mod Said
mod Asked
pub mod OwnScripts
pub mod Agreement
pub mod Asking
