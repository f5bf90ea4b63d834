pub mod Rows
pub mod Words
pub mod Grammar
pub mod Lines
pub mod Manual
pub mod inner
