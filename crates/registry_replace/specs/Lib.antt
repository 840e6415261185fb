pub mod Answers
pub mod Records
pub mod Words
pub mod Laws
pub mod Refines
