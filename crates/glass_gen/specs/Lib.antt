pub mod Draws
pub mod Drawn
