pub mod Reads
pub mod Numbers
