pub mod Blocks
pub mod Answers
