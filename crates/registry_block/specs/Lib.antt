pub mod Numbers
pub mod Lives
pub mod Blocks
pub mod Joins
