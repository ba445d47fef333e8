pub mod Errors
pub mod Later
