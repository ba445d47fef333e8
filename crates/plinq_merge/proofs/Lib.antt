pub mod MergerWords
pub mod Blocks
pub mod Holds
pub mod Joins
pub mod Delivered
pub mod Offers
pub mod Whole
pub mod Lent
