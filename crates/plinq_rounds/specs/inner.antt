-- Words that no public contract reaches: private contracts and proofs cite them.
pub mod Blocks
pub mod Rounds
