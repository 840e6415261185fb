pub mod Kinds
pub mod Generations
pub mod Refusals
