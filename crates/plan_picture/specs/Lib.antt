pub mod Words
pub mod Marks
pub mod Told
pub mod Texts
pub mod Pictures
pub mod inner
