-- Words that no public contract reaches: private contracts and proofs cite them.
pub mod Bad
pub mod FirstFields
pub mod Outcomes
pub mod Ready
