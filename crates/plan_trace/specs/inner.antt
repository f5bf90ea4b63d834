pub mod Asked
pub mod Laid
pub mod Piles
pub mod Shape
pub mod Tellings
