pub mod Queries
pub mod inner
