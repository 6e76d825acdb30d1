mod Lines
mod Printing
