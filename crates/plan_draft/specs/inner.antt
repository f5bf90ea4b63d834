pub mod Least
pub mod Places
pub mod Steps
pub mod Lasts
pub mod Drafting
