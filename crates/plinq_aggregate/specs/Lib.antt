pub mod Folding
pub mod Lawful
pub mod Numbers
