pub mod Turns
pub mod DocumentText
pub mod TokenTurns
pub mod Apart
pub mod TwoSources
pub mod Bounds
mod Printed
