pub mod History
pub mod Keys
pub mod inner
