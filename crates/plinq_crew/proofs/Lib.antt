mod Coordinating
mod Cuts
mod Handles
mod SentShares
mod TakenResults
pub mod Polls
pub mod Working
