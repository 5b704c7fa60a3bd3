pub mod Bits
pub mod Laws
pub mod Stored
pub mod StoredLaws
pub mod Orders
