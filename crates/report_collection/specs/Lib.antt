pub mod Collections
pub mod Uploads
pub mod Laws
