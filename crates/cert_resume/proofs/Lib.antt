pub mod Numbered
pub mod Walking
pub mod Least
pub mod Filling
pub mod Grown
