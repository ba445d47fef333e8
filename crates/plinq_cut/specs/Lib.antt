pub mod CutRows
pub mod Cutting
pub mod OfPlan
pub mod Passes
pub mod Views
pub mod inner
