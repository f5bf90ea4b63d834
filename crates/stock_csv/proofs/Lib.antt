pub mod Sets
pub mod PlateSets
mod DefectFields
