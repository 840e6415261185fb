pub mod Names
pub mod Rows
