pub mod Values
pub mod Commands
pub mod Reading
pub mod Settings
pub mod Ranges
pub mod Seen
pub mod Laws
