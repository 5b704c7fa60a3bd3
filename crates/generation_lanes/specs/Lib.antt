pub mod Growing
pub mod Seeds
