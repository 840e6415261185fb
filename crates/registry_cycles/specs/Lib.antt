pub mod Rows
pub mod Runs
pub mod Left
pub mod Hold
