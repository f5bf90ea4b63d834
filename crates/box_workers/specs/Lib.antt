pub mod Handling
pub mod Runs
pub mod Works
pub mod Watched
pub mod Histories
pub mod inner
