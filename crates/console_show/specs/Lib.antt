pub mod Spoken
pub mod Buffered
pub mod Shown
pub mod Told
