pub mod Lines
pub mod WalkedSlices
