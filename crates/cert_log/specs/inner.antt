pub mod Fields
pub mod FirstLine
pub mod Growth
pub mod LineForms
pub mod Places
pub mod SoFar
pub mod Writing
