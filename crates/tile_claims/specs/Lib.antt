pub mod Drawers
pub mod ExactlyOne
pub mod Lists
pub mod Plans
pub mod Rule
pub mod Views
