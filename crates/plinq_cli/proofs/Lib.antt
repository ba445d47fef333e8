pub mod Known
pub mod Flushed
mod RunLines
mod OnOneThread
mod HandedOut
mod JobHistories
mod ToldEnding
mod PartitionTurns
mod Stopped
