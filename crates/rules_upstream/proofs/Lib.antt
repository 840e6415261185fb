pub mod Dependencies
pub mod Retirement
pub mod Admission
