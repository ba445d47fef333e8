mod ItemLines
pub mod LinesTaken
pub mod PartWritten
mod BatchesTaken
pub mod WrittenBytes
