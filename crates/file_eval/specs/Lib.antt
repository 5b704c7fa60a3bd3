pub mod ValueLines
pub mod Readers
pub mod Answers
