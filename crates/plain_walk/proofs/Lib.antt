pub mod LevelSteps
pub mod WalkSteps
pub mod WholeWalk
