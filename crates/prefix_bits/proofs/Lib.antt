pub mod StoredLists
pub mod Writes
pub mod Order
pub mod Prefixes
pub mod Bytes
