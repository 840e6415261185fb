pub mod Entries
pub mod Addition
pub mod Filled
