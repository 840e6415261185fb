pub mod Seen
pub mod Behind
