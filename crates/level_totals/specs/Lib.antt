pub mod Stripes
pub mod Levels
