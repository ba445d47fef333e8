pub mod Indexes
pub mod KeysRise
pub mod Lists
pub mod OnDemand
pub mod Promised
pub mod Shares
pub mod Taken
pub mod Whole
mod Together
