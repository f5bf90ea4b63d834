pub mod Gaps
mod Behind
mod Extend
mod Full
mod Law
mod Examples
