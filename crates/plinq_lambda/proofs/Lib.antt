mod Near
mod SoFar
pub mod Words
