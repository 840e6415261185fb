pub mod Filled
pub mod Keys
pub mod Stored
pub mod Answers
