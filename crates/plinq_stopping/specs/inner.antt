-- Words that no public contract reaches: private contracts and proofs cite them.
pub mod Watching
pub mod Summing
pub mod Reported
pub mod Given
