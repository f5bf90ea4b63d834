pub mod Those
pub mod Improving
mod Completing
mod Gathering
