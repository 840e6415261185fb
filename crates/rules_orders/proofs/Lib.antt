pub mod Histories
pub mod Started
pub mod OneStart
pub mod Startup
