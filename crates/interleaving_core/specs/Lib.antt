pub mod Events
pub mod Systems
pub mod Walks
pub mod Sides
pub mod Phases
pub mod Turns
pub mod Collections
