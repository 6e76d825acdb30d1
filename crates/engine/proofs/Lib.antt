mod Entering
mod Descending
mod Moving
mod Asking
