pub mod Keeps
pub mod Rows
pub mod Joined
pub mod Drained
pub mod Examples
