pub mod Told
pub mod Fetching
pub mod Held
pub mod Storing
