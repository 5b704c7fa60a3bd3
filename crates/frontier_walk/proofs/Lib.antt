pub mod Survivors
pub mod Endings
