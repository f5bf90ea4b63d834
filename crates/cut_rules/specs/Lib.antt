pub mod Breaches
pub mod inner
