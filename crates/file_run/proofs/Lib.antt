pub mod ReadSteps
pub mod WalkSteps
pub mod Bounds
pub mod CollectSteps
