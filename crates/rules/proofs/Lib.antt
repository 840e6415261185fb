pub mod Text
pub mod TextExamples
