pub mod DefectRows
pub mod Settings
pub mod PlateRows
pub mod inner
