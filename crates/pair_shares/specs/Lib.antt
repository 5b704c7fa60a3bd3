pub mod MadeReports
pub mod Laws
