pub mod Kept
pub mod Seen
pub mod Leastings
pub mod Spans
pub mod inner
