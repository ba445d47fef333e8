pub mod Making
pub mod Mapped
pub mod PartingRows
pub mod inner
