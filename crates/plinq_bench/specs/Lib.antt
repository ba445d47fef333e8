pub mod Spinning
pub mod Totals
pub mod Works
