pub mod Rows
pub mod Numbers
pub mod Readings
pub mod Lines
