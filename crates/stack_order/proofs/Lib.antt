pub mod Searches
pub mod Ordered
pub mod Counted
pub mod Places
pub mod Gathers
pub mod Answered
pub mod Agreement
mod Ones
