-- Definitions that only this crate's own functions speak of.
pub mod Betters
