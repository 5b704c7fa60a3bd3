pub mod Pairs
pub mod LevelWords
pub mod Made
