pub mod Next
pub mod Sizes
