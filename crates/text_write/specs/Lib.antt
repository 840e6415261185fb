pub mod Order
pub mod Written
pub mod Numbers
