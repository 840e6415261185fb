pub mod Refusals
pub mod Values
pub mod Told
pub mod Said
pub mod Written
pub mod Planned
pub mod Bytes
pub mod Loads
