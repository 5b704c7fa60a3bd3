pub mod Spelling
pub mod ShareFile
pub mod Refusals
pub mod Pieces
pub mod Readings
pub mod Causes
pub mod Answers
pub mod Laws
