pub mod Cutting
pub mod Numbers
mod Keeping
mod Dealing
mod Handed
mod Places
mod Ruling
