pub mod Marks
pub mod TraceRules
pub mod Broken
pub mod Canonical
pub mod Claims
pub mod inner
