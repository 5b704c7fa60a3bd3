pub mod LineSteps
pub mod StringLaws
