pub mod Rising
pub mod Parts
pub mod Same
pub mod Sizes
pub mod Fit
