pub mod Gates
pub mod Crews
pub mod Marked
pub mod Seen
