pub mod Hollows
pub mod Twists
