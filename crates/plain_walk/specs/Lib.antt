pub mod Chosen
pub mod Levels
