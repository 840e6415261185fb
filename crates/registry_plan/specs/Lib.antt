pub mod Rising
pub mod Waits
pub mod Fills
pub mod Fits
