pub mod Tallies
pub mod Arms
pub mod Gathers
pub mod Neighbours
pub mod inner
