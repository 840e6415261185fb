pub mod Rules
pub mod Words
pub mod Offers
pub mod Refines
