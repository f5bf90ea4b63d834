pub mod Words
pub mod Seats
pub mod Rule
pub mod inner
