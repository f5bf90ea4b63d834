pub mod Frozen
pub mod Rests
pub mod Claims
pub mod inner
