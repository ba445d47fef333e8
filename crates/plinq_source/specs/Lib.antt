pub mod Trace
pub mod Concat
pub mod Range
pub mod Repeat
pub mod Text
pub mod Walked
pub mod inner
