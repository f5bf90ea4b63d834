pub mod Fronts
pub mod Cells
pub mod Strips
pub mod Places
pub mod Courses
pub mod Claims
