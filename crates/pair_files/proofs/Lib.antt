pub mod BothLaws
pub mod MadeLaws
pub mod PairSteps
