-- Words that no public contract reaches: private contracts and proofs cite them.
pub mod Answering
pub mod Chunking
pub mod FeedingFrom
pub mod Passing
