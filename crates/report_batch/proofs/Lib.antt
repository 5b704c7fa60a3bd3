pub mod Lists
pub mod Standings
pub mod Entered
pub mod Keys
pub mod Joining
pub mod Given
pub mod Sizes
