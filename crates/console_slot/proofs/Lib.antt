pub mod Operations
pub mod Lines
