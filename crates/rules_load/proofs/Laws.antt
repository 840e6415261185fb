-- Laws on the conditions of a text.
pub mod Chains
