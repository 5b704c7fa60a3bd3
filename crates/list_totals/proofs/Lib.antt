pub mod Totals
pub mod Elements
