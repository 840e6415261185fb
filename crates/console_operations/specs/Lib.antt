pub mod Asked
pub mod Carried
