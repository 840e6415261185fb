pub mod Places
pub mod Runs
pub mod Bytes
