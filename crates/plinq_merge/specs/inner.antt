-- Words that no public contract reaches: private contracts and proofs cite them.
pub mod Sent
pub mod Handing
pub mod OneThread
pub mod Stopped
pub mod Lending
pub mod Moving
