pub mod Ways
pub mod Lists
