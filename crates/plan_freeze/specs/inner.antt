pub mod Wasted
pub mod Widths
