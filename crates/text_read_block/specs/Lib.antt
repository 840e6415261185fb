pub mod Rows
pub mod Valued
pub mod Lists
pub mod Blocks
