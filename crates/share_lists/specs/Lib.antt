pub mod FileLists
pub mod Bounds
pub mod Steps
