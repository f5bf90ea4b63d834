pub mod Due
pub mod Starts
