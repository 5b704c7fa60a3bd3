pub mod Ranges
pub mod Beginnings
pub mod Answers
pub mod Readings
pub mod Hearings
pub mod Sendings
pub mod Keeps
