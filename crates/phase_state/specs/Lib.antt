pub mod Sums
pub mod Logs
pub mod Phases
pub mod Rooms
pub mod Loops
