pub mod Listed
pub mod Passing
pub mod Ran
pub mod Told
pub mod inner
