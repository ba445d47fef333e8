pub mod Intervals
pub mod Buffered
pub mod BufferRows
