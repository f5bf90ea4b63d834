pub mod Cuts
pub mod Breaches
