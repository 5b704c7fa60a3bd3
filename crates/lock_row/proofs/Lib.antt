mod Cuts
pub mod Taking
mod Growing
mod Rest
mod Handing
mod AtPlace
