pub mod Calling
pub mod Equal
pub mod ItemFoldings
pub mod Telling
pub mod TellingRows
