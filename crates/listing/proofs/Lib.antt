mod Lines
mod Premises
mod Outside
