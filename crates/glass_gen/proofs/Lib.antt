pub mod Drawing
pub mod Examples
