pub mod Wasting
pub mod Areas
pub mod Conserved
pub mod Plates
pub mod Served
pub mod Balance
pub mod TraceEnds
pub mod Heights
