pub mod Awaited
pub mod Loaded
pub mod Silent
