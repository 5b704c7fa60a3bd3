pub mod Kinds
pub mod Misreads
pub mod Exchanges
pub mod Laws
