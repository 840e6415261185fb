pub mod Starts
pub mod Demand2
pub mod Demand3
pub mod Stays
pub mod Texts
pub mod Loads
pub mod Orders
