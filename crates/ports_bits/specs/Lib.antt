pub mod Bits
pub mod Keys
