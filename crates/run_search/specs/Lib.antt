pub mod Plans
pub mod Resumptions
pub mod Freezes
pub mod inner
