pub mod Known
pub mod Tables
