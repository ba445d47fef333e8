mod Called
mod Collected
mod JoinedBatches
pub mod Gathered
