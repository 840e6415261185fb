pub mod Joining
pub mod Formed
pub mod Laws
pub mod Meets
pub mod Joins
pub mod Twin
pub mod Loaded
