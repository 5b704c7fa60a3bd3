pub mod Lists
pub mod Steps
pub mod Cutting
mod Growing
pub mod Marks
mod Posts
mod Joins
pub mod Filled
