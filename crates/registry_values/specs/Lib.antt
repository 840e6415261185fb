pub mod Answers
pub mod Rules
pub mod Questions
