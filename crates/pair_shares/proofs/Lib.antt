pub mod IdOrder
pub mod MadeLists
pub mod MadeBatch
pub mod MadeWalk
