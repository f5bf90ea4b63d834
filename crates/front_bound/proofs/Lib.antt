pub mod KnownSides
pub mod SideLemmas
pub mod LaneSides
pub mod Reached
pub mod PlacedRows
pub mod PlacedRuns
