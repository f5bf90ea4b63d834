pub mod Openings
pub mod Stored
