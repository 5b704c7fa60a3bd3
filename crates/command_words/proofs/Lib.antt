pub mod NumberSteps
mod CrateSteps
mod Simple
mod Exact
