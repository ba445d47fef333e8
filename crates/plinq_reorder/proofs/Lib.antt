pub mod Keys
pub mod Insert
pub mod Gap
pub mod Overlaps
