pub mod Turns
pub mod Reached
pub mod Interval
pub mod Lists
pub mod Lookups
