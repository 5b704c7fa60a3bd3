pub mod Entries
pub mod Shards
