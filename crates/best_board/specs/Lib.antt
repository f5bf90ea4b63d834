pub mod Improvements
pub mod Kept
pub mod Offers
pub mod Settles
