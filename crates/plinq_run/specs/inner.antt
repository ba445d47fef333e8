-- Words that no public contract reaches: private contracts and proofs cite them.
pub mod Blocks
pub mod TokenReports
pub mod Combining
pub mod CombiningLawful
pub mod Conducted
pub mod FirstFault
pub mod Finishing
pub mod Folds
pub mod Merged
pub mod Offered
pub mod SequentialFold
pub mod PlanAnswers
pub mod Reported
pub mod Standing
pub mod Valuing
