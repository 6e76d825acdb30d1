mod Lists
mod Parts
mod Turns
