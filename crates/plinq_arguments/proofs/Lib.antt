mod ArgumentRows
pub mod Asked
