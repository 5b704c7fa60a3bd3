pub mod SideSums
pub mod Caches
