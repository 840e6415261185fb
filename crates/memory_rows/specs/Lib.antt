pub mod Moves
pub mod Laws
pub mod Tiles
pub mod Dense
pub mod Opened
pub mod Removal
pub mod Freed
pub mod Stored
