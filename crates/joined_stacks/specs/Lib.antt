pub mod Bounds
pub mod inner
