mod Locks
mod Posts
mod Closing
mod Finishing
