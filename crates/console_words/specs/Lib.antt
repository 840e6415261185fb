pub mod Words
pub mod Runs
pub mod Parted
pub mod Fronts
pub mod Bytes
