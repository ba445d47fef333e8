pub mod Concats
pub mod Filling
pub mod Followed
pub mod Steps
pub mod Numerals
pub mod Reading
pub mod Tokens
pub mod Walks
