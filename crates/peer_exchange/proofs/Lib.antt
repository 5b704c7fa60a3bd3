pub mod Headers
pub mod Numbers
pub mod Spelled
pub mod Flats
pub mod Received
pub mod Fronts
