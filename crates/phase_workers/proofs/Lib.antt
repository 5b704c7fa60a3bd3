mod Together
mod Lists
mod Steps
mod Striped
mod Ends
mod Whole
mod Workers
mod Seats
