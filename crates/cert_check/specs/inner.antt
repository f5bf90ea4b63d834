pub mod Paths
pub mod Walks
pub mod Knowns
pub mod Naming
pub mod Taken
