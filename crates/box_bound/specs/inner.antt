pub mod Drawn
pub mod Walks
