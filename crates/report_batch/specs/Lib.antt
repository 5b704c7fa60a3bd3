pub mod Batches
pub mod Contents
pub mod Laws
