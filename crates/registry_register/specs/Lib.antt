pub mod Verdicts
pub mod Runs
pub mod Parts
pub mod Written
pub mod Refines
