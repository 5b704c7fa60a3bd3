pub mod Settings
pub mod Steps
pub mod Crews
pub mod Caches
pub mod Halves
pub mod Stages
