pub mod Workers
pub mod Entries
pub mod Tiling
pub mod Planning
pub mod Bridges
pub mod Stepping
pub mod Sides
