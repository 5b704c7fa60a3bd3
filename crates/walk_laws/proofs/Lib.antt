pub mod Ends
pub mod Batches
pub mod Members
pub mod Strings
