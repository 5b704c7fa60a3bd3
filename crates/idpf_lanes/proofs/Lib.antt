pub mod Parting
pub mod Putting
pub mod Standing
