pub mod Asking
pub mod Outcomes
pub mod inner
