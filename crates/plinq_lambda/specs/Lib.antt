pub mod Formula
pub mod Meaning
pub mod Block
pub mod Short
pub mod FaultRows
pub mod FormulaWords
pub mod inner
