pub mod Settings
pub mod Tellings
