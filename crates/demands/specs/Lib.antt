pub mod Leaves
pub mod Starts
pub mod Demand1
pub mod Demand2
pub mod Demand3
pub mod Loads
pub mod Orders
