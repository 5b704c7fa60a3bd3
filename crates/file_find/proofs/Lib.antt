pub mod HeardSteps
pub mod MadeSteps
pub mod TellSteps
pub mod FindSteps
pub mod SumSteps
