pub mod Names
pub mod Table
pub mod Others
pub mod Behind
