pub mod Answers
pub mod Fronts
pub mod Tries
