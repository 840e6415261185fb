pub mod Words
pub mod Joined
pub mod Plugins
pub mod Join
pub mod Whole
