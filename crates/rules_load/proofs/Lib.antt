pub mod Laws
pub mod Loaded
