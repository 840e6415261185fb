pub mod Definitions
pub mod Found
pub mod Whole
