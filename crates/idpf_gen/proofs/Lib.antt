pub mod Reduced
pub mod CoinSteps
pub mod WordSteps
pub mod PairLaws
pub mod LineLaws
