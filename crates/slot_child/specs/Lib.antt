pub mod Slots
pub mod Exact
