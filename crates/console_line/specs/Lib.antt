pub mod Lines
pub mod Console
