pub mod RowPlaces
pub mod Finding
