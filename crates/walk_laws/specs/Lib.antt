pub mod HeavyStrings
pub mod Standing
pub mod LastLevel
