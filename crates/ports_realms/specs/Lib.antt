pub mod Rows
pub mod Halving
pub mod Answers
