-- Definitions that only this crate's own functions speak of.
pub mod Adding
pub mod Layouts
pub mod Sketches
pub mod Surveys
