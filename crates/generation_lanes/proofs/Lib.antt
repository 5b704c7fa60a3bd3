pub mod PairSteps
pub mod LineSteps
