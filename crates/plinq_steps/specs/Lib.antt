pub mod Beside
pub mod Enough
pub mod Makes
pub mod Means
