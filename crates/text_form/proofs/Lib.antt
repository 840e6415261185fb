pub mod Forms
pub mod Numbers
pub mod Lines
