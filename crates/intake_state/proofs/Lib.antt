pub mod Same
pub mod Orders
pub mod Entering
