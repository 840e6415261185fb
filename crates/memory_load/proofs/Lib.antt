pub mod SoFar
pub mod Whole
