pub mod StringSteps
pub mod MakingSteps
