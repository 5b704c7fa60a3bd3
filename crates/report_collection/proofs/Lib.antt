pub mod Lists
pub mod Permuted
pub mod Seats
pub mod Order
