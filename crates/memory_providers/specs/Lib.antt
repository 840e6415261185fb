pub mod Providers
pub mod Claimed
pub mod Words
