pub mod Across
pub mod Distinct
pub mod Legal
pub mod Rising
pub mod LoopSteps
