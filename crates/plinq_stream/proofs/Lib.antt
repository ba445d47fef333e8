pub mod Beside
pub mod Numbers
mod Steps
pub mod Under
