-- Words that no public contract reaches: private contracts and proofs cite them.
pub mod Closing
pub mod Coordinating
pub mod Handles
pub mod Joining
pub mod Scoped
pub mod Taking
pub mod Teams
