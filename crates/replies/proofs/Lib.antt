mod Reasons
mod Behind
