pub mod Loading
pub mod Next
pub mod Places
pub mod Step
