pub mod Basics
pub mod Tests
