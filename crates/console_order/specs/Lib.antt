pub mod Checks
pub mod Plans
