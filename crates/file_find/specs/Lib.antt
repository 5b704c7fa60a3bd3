pub mod Ranges
pub mod Walks
pub mod Texts
pub mod Answers
pub mod Sendings
pub mod Keeps
