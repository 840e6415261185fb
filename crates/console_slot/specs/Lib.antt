pub mod Operations
pub mod Exact
pub mod Lines
