pub mod Points
pub mod Honest
