pub mod Frontiers
pub mod Outcomes
