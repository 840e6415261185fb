pub mod Values
pub mod Firsts
pub mod After
pub mod Given
