pub mod Clear
pub mod Placed
pub mod Around
pub mod SideLanes
