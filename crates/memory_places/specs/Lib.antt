pub mod Changes
pub mod Bits
pub mod Taken
pub mod Free
pub mod Placed
pub mod Rows
pub mod Lowest
pub mod Any
