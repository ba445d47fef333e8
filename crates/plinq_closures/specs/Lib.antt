pub mod Asked
pub mod BlockSteps
pub mod Functions
pub mod Laws
pub mod Steps
pub mod inner
