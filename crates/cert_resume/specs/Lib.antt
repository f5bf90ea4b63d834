pub mod OpenBoxes
pub mod Joins
pub mod inner
