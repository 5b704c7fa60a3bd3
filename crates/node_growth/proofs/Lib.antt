pub mod Filling
pub mod Planning
