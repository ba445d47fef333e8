pub mod Accumulating
mod Carrying
mod Delivering
mod FirstOnes
mod Gathering
mod Lending
pub mod Listing
pub mod OneByOne
mod Reaching
pub mod Searching
mod Telling
mod Touching
mod Visited
