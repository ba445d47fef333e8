pub mod inner
pub mod Streams
pub mod Tallying
