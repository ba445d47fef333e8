pub mod Knowing
pub mod Passes
pub mod StreamRows
pub mod Streams
