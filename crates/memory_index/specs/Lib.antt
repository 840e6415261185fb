pub mod Among
pub mod Index
pub mod Indexed
